-- What only proofs and private contracts use.
pub mod Answers
pub mod Fields
pub mod PartsAnswers
pub mod Refusals
pub mod WithEntities
