pub mod mark_attributes
pub mod item_dependencies
