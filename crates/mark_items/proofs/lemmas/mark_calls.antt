pub mod Lists
pub mod Rowing
pub mod Finding
pub mod Declaring
