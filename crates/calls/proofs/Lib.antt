pub mod Running
pub mod Coding
