pub mod Cells
pub mod Fields
pub mod Handles
pub mod Kinds
pub mod Settled
