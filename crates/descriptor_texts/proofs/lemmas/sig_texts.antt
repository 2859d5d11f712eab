pub mod Naming
pub mod TextLayers
pub mod MethodTexts
