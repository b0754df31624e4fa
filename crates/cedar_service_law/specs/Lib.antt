pub mod Fair
pub mod Histories
pub mod Jobs
pub mod Results
pub mod Service
