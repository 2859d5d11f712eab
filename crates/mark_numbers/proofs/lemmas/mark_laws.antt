pub mod There
pub mod Marking
