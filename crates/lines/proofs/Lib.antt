pub mod Reading
pub mod Writing
pub mod RoundTrip
pub mod Answered
