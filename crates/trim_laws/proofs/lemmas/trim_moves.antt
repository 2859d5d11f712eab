pub mod Flags
pub mod Parts
pub mod Enclosers
pub mod Names
