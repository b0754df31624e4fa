pub mod LinkLemmas
pub mod PolicyIdLemmas
