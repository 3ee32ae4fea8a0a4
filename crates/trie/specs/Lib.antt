pub mod Walks
pub mod Strung
pub mod Places
