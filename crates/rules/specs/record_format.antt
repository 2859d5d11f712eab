pub mod Cells
pub mod Parts
pub mod Types
pub mod Members
pub mod Others
pub mod Texts
pub mod Record
