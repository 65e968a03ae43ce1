pub mod Behind
pub mod Figures
pub mod Grid
pub mod Names
pub mod Table
