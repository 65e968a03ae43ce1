pub mod Disk
pub mod Load
pub mod Memory
