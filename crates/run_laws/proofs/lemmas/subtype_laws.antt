pub mod Filtered
pub mod Steps
pub mod Climbs
pub mod Whole
pub mod Defined
pub mod Below
pub mod Choices
