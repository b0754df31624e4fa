mod Emitted
mod Falls
mod Forward
mod Members
pub mod OneEnd
mod Runs
pub mod Sizes
mod Taken
mod TrueSides
