pub mod Put
pub mod Taken
