pub mod PartsRead
pub mod Replaying
pub mod Checking
pub mod Settling
