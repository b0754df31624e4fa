-- What only proofs and private contracts use.
pub mod Down
pub mod Truths
