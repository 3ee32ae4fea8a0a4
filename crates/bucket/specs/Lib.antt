pub mod Slots
pub mod Forms
pub mod Copies
