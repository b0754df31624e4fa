pub mod Statements
pub mod Earlier
pub mod StatementText
pub mod StatementReading
