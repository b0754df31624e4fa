-- What proofs and contracts within the crate cite, and nobody needs to believe.
pub mod Ascents
pub mod Based
pub mod Branches
pub mod Called
pub mod Changing
pub mod Forks
pub mod Gained
pub mod Gathered
pub mod Hashed
pub mod Kept
pub mod Overlaid
pub mod Parts
