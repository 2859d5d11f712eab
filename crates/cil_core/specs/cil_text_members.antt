pub mod Pairs
pub mod Parsed
