pub mod Roots
pub mod Runs
pub mod Starts
