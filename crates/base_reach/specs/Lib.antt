pub mod Closure
pub mod Private
