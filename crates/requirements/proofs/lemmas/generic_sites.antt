pub mod Lists
pub mod Layers
pub mod Looping
pub mod Naming
