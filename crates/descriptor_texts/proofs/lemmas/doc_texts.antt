pub mod DocLayers
pub mod Collecting
