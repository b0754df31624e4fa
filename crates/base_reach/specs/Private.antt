-- What contracts within the crate cite.
pub mod Lent
