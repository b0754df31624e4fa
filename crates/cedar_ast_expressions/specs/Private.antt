-- What proofs, models and contracts within the crate cite, and nobody needs to believe.
pub mod Depth
pub mod ExpressionCode
pub mod Falls
pub mod Replaced
pub mod SameExpression
