pub mod Joining
pub mod Joins
pub mod Lookup
pub mod Membership
pub mod Ordered
pub mod Private
pub mod TypeKind
pub mod Types
