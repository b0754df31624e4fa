-- What contracts within the crate cite, and nobody needs to believe.
pub mod Finding
pub mod Spans
