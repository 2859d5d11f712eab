pub mod Columns
pub mod Parts
pub mod OfFile
pub mod CanBeLaid
