pub mod Running
pub mod Mapping
pub mod VoidLayers
