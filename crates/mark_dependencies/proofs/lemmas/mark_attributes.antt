pub mod Lists
pub mod Belonging
