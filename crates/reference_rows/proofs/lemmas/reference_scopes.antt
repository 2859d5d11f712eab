pub mod Climbing
pub mod Enclosing
