pub mod Outcomes
pub mod Merges
