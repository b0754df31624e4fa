mod ChainLemmas
mod ExpandLemmas
pub mod FormLemmas
pub mod ListLemmas
pub mod Lookups
mod PlaceLemmas
mod ShapeLemmas
mod Words
