pub mod Rows
pub mod Types
