pub mod Units
pub mod Rows
pub mod GivenBytes
