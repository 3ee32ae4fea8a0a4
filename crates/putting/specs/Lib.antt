pub mod Outcomes
pub mod Plans
pub mod Full
