-- What only proofs use.
pub mod Exactness
