pub mod PrimLemmas
pub mod SystemType
pub mod KindLayers
