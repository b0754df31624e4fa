-- What only proofs and private contracts use: typing and reports as functions, which the checker computes.
pub mod Checking
pub mod Reporting
