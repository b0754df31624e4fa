pub mod Cuts
pub mod Firsts
pub mod Served
pub mod Steps
pub mod Whole
