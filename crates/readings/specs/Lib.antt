pub mod Errors
pub mod Reading
