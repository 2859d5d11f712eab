pub mod Fills
pub mod Lines
