pub mod Names
pub mod Lookups
pub mod mark_attributes
pub mod item_dependencies
