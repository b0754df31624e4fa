-- What proofs, models and private contracts use. No contract of a function that another crate calls cites it.
pub mod Contract
pub mod SpacesView
pub mod Denoting
