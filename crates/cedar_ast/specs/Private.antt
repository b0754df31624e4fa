-- What proofs, models and contracts within the crate cite, and nobody needs to believe.
pub mod PolicyIds
