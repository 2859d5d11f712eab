pub mod Opened
pub mod TypeLayers
pub mod Computed
