-- What proofs and private contracts use. No public clause uses it.
pub mod Kept
pub mod ReadyTrees
pub mod Ruling
pub mod Selected
pub mod ShortAnswers
pub mod Tally
pub mod Tokens
