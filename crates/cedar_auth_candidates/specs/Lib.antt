pub mod Candidates
pub mod Index
pub mod Private
pub mod Reached
pub mod ScopeMatcherView
pub mod Scopes
