pub mod Passes
pub mod Decides
