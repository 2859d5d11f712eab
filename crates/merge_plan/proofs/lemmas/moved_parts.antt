pub mod SigLayers
pub mod Telling
