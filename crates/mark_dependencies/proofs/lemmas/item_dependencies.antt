pub mod Lists
pub mod Forming
pub mod Grouping
pub mod Belonging
