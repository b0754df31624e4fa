pub mod Turns
pub mod Grown
pub mod Members
pub mod Bytes
pub mod Denoting
pub mod Cutting
pub mod Whole
pub mod Each
