pub mod Commands
pub mod Grids
