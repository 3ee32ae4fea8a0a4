pub mod Handing
pub mod Creating
pub mod Recovering
pub mod Rebuilding
