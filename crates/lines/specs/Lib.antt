pub mod Lines
pub mod Code
pub mod Errors
