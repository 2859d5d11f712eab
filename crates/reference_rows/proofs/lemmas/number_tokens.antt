pub mod Filling
pub mod Unset
pub mod Telling
