pub mod AnswerJson
pub mod Candidates
pub mod Codes
pub mod Headline
pub mod Ready
pub mod Validation
