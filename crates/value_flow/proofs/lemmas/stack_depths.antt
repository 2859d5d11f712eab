pub mod Lists
pub mod Marks
pub mod Entering
pub mod Searching
