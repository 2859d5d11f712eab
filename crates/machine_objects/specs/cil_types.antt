pub mod Boxing
pub mod Casts
