pub mod Marks
pub mod Units
