pub mod Chains
pub mod Listed
pub mod Searching
