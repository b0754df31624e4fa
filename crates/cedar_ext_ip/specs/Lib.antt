pub mod IpOf
pub mod Order
pub mod Private
pub mod Ranges
pub mod Texts
pub mod Values
