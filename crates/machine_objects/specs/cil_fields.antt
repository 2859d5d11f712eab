pub mod Placing
pub mod Structs
