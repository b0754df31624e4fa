pub mod Faults
pub mod Links
pub mod Numbered
pub mod Private
