pub mod Looking
pub mod Paths
pub mod Private
pub mod Refusals
