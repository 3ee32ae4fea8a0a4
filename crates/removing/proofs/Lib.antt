pub mod Neighbours
pub mod Removing
