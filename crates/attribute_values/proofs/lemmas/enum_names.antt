pub mod Lists
pub mod Climbing
pub mod Finding
pub mod Naming
