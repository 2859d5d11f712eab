pub mod Headers
pub mod Columns
pub mod Items
pub mod Gathering
pub mod Puts
pub mod Starts
pub mod Whole
