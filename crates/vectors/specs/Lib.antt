pub mod Vectors
pub mod Cases
pub mod Statement
