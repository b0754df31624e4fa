pub mod Changing
pub mod Errors
pub mod Numbers
pub mod Private
pub mod Runs
