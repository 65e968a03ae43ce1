pub mod Picture
pub mod Keys
