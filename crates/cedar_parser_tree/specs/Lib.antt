pub mod Written
pub mod WrittenKind
pub mod StatementTree
pub mod Private
