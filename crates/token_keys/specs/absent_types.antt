pub mod Rows
pub mod Steps
pub mod Named
pub mod References
