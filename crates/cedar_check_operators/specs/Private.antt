-- What only proofs and the contracts of functions that the crate keeps to itself use.
pub mod Height
pub mod View
