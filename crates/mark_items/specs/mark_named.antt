pub mod Setters
pub mod Nearest
