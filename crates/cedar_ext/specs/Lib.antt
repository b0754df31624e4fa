pub mod DecimalOf
pub mod Decimals
pub mod Extensions
pub mod Matching
pub mod Methods
pub mod Private
pub mod SamePattern
pub mod UnaryMethods
