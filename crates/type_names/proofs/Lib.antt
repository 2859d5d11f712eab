pub mod ChainLemmas
pub mod Comparing
pub mod HomeLemmas
pub mod LabelLayers
pub mod Joining
pub mod Keeping
pub mod TextLayers
pub mod Within
