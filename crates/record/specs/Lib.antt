pub mod Items
pub mod Write
pub mod Scan
pub mod Reopen
pub mod Errors
pub mod Code
