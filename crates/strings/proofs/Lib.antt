pub mod Adding
pub mod Listing
pub mod Surveyed
