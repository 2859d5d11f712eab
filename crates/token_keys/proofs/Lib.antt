pub mod MadeLayers
pub mod Plain
pub mod Prims
pub mod lemmas
