pub mod Made
pub mod Members
pub mod Trees
