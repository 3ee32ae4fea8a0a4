pub mod Marks
pub mod States
pub mod Parts
pub mod Fitting
pub mod Numbers
pub mod Laws
pub mod Answers
