pub mod Filling
pub mod Unnamed
pub mod Added
pub mod Whole
pub mod Finding
pub mod Prims
