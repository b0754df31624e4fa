pub mod Meaning
pub mod Limits
pub mod StatementMeaning
pub mod StatementLimits
pub mod Private
