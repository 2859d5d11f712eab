pub mod Flags
pub mod Keeping
