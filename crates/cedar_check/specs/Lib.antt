pub mod FaultView
pub mod Private
pub mod Typings
