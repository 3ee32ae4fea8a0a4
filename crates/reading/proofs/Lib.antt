pub mod LookingUp
pub mod Writing
pub mod Listing
