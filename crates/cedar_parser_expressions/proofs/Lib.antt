pub mod Moves
pub mod Binds
pub mod Sound
pub mod Complete
pub mod StepLemmas
