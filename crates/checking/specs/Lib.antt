pub mod Ready
pub mod Homes
