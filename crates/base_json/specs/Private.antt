-- What proofs and contracts within the crate cite, and nobody needs to believe.
pub mod Trees
pub mod Modes
pub mod Plain
pub mod Stages
pub mod Steps
pub mod Whole
