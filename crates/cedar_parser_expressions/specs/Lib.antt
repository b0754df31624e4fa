pub mod Grammar
pub mod Nesting
pub mod Reading
pub mod Private
