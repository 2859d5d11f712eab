pub mod Lists
pub mod Letters
pub mod Layers
