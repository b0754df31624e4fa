mod ChangedConforming
pub mod ChangesExact
mod ChangesLemmas
mod ComingLemmas
mod Conforming
mod Denoted
pub mod EntryLemmas
mod Exact
mod ListLemmas
mod OnceLemmas
pub mod OnlyMemory
mod PlainLemmas
mod Repeats
mod SameConforming
mod StoreLemmas
mod TwiceLemmas
