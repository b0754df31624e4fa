pub mod Items
pub mod JsonTree
pub mod LentObjects
pub mod Members
pub mod LentItems
pub mod Lists
pub mod Quoted
pub mod Private
