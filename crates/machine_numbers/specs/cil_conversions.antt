pub mod Conversions
pub mod Outcomes
