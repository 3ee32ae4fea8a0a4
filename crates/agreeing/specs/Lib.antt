pub mod Ways
pub mod Agreeing
