pub mod Conformance
pub mod Declarations
pub mod Descents
pub mod Enumerated
pub mod Private
pub mod SchemaTree
pub mod WellFormed
