pub mod Headers
pub mod Stretches
