-- What proofs and contracts within the crate cite, and nobody needs to believe.
pub mod Chosen
pub mod Kept
pub mod Met
pub mod RowMaking
pub mod Sifting
