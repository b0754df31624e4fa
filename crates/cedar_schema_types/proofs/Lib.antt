mod AttributeJoins
pub mod Inserted
pub mod Joined
mod JoinedByName
pub mod JoinedMembers
mod JoinedNames
pub mod Names
pub mod Orders
