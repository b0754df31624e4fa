pub mod Worlds
pub mod Entries
pub mod Denotes
pub mod Faults
pub mod Bytes
pub mod Changes
pub mod Exactness
pub mod Private
