pub mod Board
pub mod Errors
pub mod Open
