pub mod Comparing
pub mod Forms
