pub mod Places
pub mod Drafts
pub mod Characters
