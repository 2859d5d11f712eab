pub mod AllFit
pub mod Wrapping
