pub mod Saying
pub mod Demand1
pub mod Images
pub mod Demand2
pub mod Demand3
pub mod Meanings
pub mod Determined
