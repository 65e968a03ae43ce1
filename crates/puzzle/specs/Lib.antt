pub mod Refusals
pub mod Errors
pub mod Givens
pub mod Puzzle
pub mod Vouch
pub mod Text
pub mod EachOnce
pub mod Code
