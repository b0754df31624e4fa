-- What proofs and contracts within the crate cite, and nobody needs to believe.
pub mod DigitsWithin
pub mod ExtensionCode
pub mod ExtensionLemmas
pub mod RowsTyped
pub mod SamePattern
