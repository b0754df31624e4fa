-- What proofs and contracts within the crate cite, and nobody needs to believe.
pub mod Inside
pub mod Laws
pub mod Written
