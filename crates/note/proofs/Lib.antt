-- The laws of this crate that belong to no one function.
-- Assumes nothing.
pub mod Bits
pub mod Note
