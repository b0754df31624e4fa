-- What proofs and contracts within the crate cite, and nobody needs to believe.
pub mod Capped
pub mod Written
