-- What proofs, models and private contracts of this crate use.
pub mod Answers
pub mod Kept
pub mod KeptSchema
pub mod NamedForms
pub mod Places
pub mod ReadsApplies
pub mod SettingView
