pub mod Owned
pub mod Types
