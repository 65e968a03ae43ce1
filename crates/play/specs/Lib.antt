pub mod Play
pub mod Check
pub mod Unsound
pub mod Code
