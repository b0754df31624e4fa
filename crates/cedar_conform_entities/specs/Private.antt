-- What proofs and contracts within the crate cite, and nobody needs to believe.
pub mod Changing
pub mod Coming
pub mod Parts
pub mod Plain
pub mod Progress
