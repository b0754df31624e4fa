pub mod Ancestors
pub mod Changes
pub mod DescendantView
pub mod Entities
pub mod Faults
pub mod Private
