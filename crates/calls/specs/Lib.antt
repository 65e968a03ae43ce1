pub mod Session
pub mod Encoded
pub mod Code
