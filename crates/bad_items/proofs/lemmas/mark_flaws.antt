pub mod Lists
pub mod Rowing
pub mod Placing
