pub mod Code
pub mod CodeFault
pub mod CodeView
pub mod Jumps
pub mod Machine
pub mod Private
pub mod TrueSides
