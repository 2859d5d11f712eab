pub mod Seconds
pub mod Bringing
