-- What proofs, models and private contracts use.
pub mod Environments
pub mod Linked
