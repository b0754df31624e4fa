mod EvaluationExamples
pub mod KeyLemmas
pub mod Lists
pub mod Sizes
