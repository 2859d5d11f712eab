pub mod Whole
pub mod Unmoved
pub mod Telling
