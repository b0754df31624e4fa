pub mod Bits
pub mod Private
