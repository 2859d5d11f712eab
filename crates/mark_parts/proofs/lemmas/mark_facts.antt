pub mod Lists
pub mod ExprLayers
pub mod ShownLayers
pub mod ArgumentLayers
pub mod Joining
