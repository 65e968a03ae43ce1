pub mod Loading
pub mod Whole
