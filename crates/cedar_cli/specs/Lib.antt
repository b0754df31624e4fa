pub mod Asking
pub mod Authorization
pub mod CommandLine
pub mod GivenWords
pub mod Parsing
