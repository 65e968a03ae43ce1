pub mod Values
pub mod Numbers
pub mod Told
pub mod Opening
