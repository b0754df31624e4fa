pub mod Members
pub mod PartLists
pub mod PartsSoFar
pub mod Smaller
pub mod Typed
pub mod Ways
