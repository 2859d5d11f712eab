pub mod Lists
pub mod Rows
pub mod Slots
pub mod Interfaces
pub mod Abstract
pub mod Together
