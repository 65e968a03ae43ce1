pub mod Limits
pub mod Kinds
pub mod Bytes
pub mod State
pub mod Slots
pub mod Counts
pub mod StoredChecks
pub mod Code
