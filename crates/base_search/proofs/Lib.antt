pub mod Ahead
pub mod Finding
pub mod Numbering
pub mod Spans
