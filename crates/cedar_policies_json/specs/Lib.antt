pub mod Parts
pub mod Forms
pub mod Expressions
pub mod Statements
pub mod Repeats
pub mod PolicyFiles
pub mod Numbers
pub mod Private
