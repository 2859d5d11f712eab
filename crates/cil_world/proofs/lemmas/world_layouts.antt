pub mod Gathered
pub mod Kept
pub mod Numbered
pub mod Own
pub mod Shaped
