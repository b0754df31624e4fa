-- What proofs, models and private contracts use. No contract of a function that another crate calls cites it.
pub mod FirstLetter
pub mod Lexing
pub mod Outcomes
pub mod NormalWalk
