-- What proofs and private contracts use. No public clause uses it.
pub mod Reporting
pub mod Telling
pub mod Tokens
pub mod Unusable
