pub mod AnswerLine
pub mod AnswerLineWithEntities
pub mod AnswerParts
pub mod Private
pub mod ReadyCode
pub mod ValidationFaults
