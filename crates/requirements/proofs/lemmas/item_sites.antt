pub mod Lists
pub mod Impling
