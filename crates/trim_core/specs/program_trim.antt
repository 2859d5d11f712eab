pub mod Trim
pub mod Programs
