pub mod There
pub mod Naming
pub mod Telling
