pub mod Cells
pub mod Messages
