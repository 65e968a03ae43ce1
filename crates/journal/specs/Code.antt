pub mod InTurn
pub mod Laid
pub mod Marks
pub mod Asked
