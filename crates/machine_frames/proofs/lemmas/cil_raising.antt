pub mod Searching
pub mod Placing
pub mod Ways
pub mod Catching
