pub mod Halving
pub mod Counting
