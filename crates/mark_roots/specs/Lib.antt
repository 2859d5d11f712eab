pub mod Lookups
pub mod Waiting
