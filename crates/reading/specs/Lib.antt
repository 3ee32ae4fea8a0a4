pub mod Listings
pub mod Outcomes
pub mod Walked
