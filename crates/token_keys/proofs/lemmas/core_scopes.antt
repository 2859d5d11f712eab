pub mod Meeting
pub mod Scoping
