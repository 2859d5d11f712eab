pub mod Lists
pub mod TypeLayers
pub mod Here
pub mod Grouping
