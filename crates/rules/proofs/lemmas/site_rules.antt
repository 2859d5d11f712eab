pub mod Opened
pub mod Layers
pub mod Computed
