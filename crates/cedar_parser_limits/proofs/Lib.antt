pub mod PartLemmas
pub mod JudgeLemmas
pub mod AskedLemmas
pub mod Widening
