pub mod Clearing
pub mod Images
pub mod Courses
