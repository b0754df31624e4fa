-- What proofs and private contracts use. No public clause uses it.
pub mod Kept
pub mod Parts
pub mod Steps
pub mod Verdicts
