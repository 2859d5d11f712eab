pub mod NumberLayers
