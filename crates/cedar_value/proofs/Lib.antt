pub mod AscendingLists
pub mod ByKeys
mod Empty
pub mod FirstWord
pub mod Keys
pub mod Lighter
pub mod Made
pub mod Members
pub mod NameWords
pub mod OtherKinds
pub mod Paths
pub mod Reach
pub mod SetMembers
pub mod ValueLists
pub mod Walk
