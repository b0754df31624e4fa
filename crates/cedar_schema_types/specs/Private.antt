-- What proofs, models and private contracts of this crate use; models of crates above use `TypeCode`, as they hold types.
pub mod Falls
pub mod JoinsAttribute
pub mod KindFalls
pub mod TypeCode
pub mod Weight
