pub mod AnswerText
pub mod Counted
pub mod Faults
pub mod Lines
pub mod Private
