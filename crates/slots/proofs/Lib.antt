pub mod Slots
pub mod Spots
pub mod Halves
