-- What proofs, models and private contracts use. No contract of a function that another crate calls cites it.
pub mod Nests
pub mod Operands
pub mod Boxed
pub mod Plain
