-- What proofs and private contracts use. No contract of a function that another crate calls cites it.
pub mod Entering
