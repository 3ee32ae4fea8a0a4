pub mod Sizes
pub mod Surveys
pub mod Maps
pub mod Orders
pub mod Holders
pub mod Plans
