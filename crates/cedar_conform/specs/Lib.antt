pub mod Exactness
pub mod Links
pub mod Parts
pub mod Places
pub mod Private
pub mod Requests
pub mod RequestsWithEntities
