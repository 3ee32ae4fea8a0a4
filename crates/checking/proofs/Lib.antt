pub mod Laws
pub mod Checking
pub mod Ready
pub mod Plans
