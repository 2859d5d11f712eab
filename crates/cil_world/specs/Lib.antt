pub mod Kept
pub mod world_core
pub mod world_methods
pub mod world_definitions
pub mod world_types
pub mod world_layouts
