pub mod Small
pub mod Outcomes
