pub mod Lists
pub mod Beside
pub mod Rows
pub mod Utf8
pub mod Taken
