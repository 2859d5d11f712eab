pub mod Layers
pub mod Adding
pub mod Ending
