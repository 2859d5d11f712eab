pub mod Lists
pub mod Owning
pub mod Grouping
