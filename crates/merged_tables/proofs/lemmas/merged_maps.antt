pub mod Searching
pub mod Telling
