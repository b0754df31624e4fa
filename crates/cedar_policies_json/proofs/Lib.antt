pub mod Lists
pub mod Depths
pub mod Uids
pub mod Patterns
pub mod Entering
pub mod Files
