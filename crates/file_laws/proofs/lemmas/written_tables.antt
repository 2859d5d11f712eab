pub mod Places
pub mod Once
pub mod Items
pub mod Head
pub mod Counts
pub mod Rows
pub mod Demands
