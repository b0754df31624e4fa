-- What proofs, models and private contracts of this crate use.
pub mod Behind
pub mod Expanding
pub mod FieldView
pub mod Measures
pub mod Places
pub mod ReadsField
