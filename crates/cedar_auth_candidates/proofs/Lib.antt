pub mod Asking
pub mod Begun
pub mod CandidateRows
pub mod Entering
pub mod Environments
pub mod Fitting
pub mod Gathering
pub mod ListedPositions
pub mod Listings
pub mod Made
pub mod Makings
mod Meets
pub mod OpenActions
pub mod Selected
pub mod Sifts
mod Unmet
