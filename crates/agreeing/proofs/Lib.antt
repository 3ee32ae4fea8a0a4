pub mod Ways
pub mod Bounds
pub mod Agreeing
