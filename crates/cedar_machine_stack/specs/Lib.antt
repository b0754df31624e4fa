pub mod Access
pub mod Private
pub mod StackView
pub mod Truth
