-- What proofs, models and contracts within the crate cite, and nobody needs to believe.
pub mod Compare
pub mod DatumCode
pub mod Equality
pub mod Falls
pub mod Hashed
pub mod KindFalls
pub mod Laws
pub mod Lists
pub mod Parents
pub mod Same
pub mod Weight
pub mod Words
