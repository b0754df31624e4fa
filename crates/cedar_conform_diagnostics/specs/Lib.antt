pub mod Private
pub mod Refused
