pub mod Finding
pub mod Layers
pub mod Looking
