pub mod Tests
pub mod Grid
