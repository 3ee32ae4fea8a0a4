pub mod Parts
pub mod Grows
