pub mod Homes
pub mod Putting
pub mod Dividing
