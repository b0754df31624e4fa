pub mod MachineView
pub mod Private
pub mod Progress
pub mod RestingView
pub mod Verdict
