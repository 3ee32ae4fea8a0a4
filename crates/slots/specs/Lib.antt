pub mod Written
pub mod Spots
pub mod Halves
pub mod Parts
