pub mod Brings
pub mod Waiting
