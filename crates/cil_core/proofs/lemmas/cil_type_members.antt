pub mod Constructed
pub mod Making
