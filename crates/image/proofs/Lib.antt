pub mod Agreeing
pub mod Clear
pub mod Coding
pub mod Courses
pub mod Images
pub mod Imaging
pub mod Sharing
pub mod Storing
