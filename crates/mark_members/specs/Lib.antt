pub mod Items
pub mod Levels
pub mod mark_whole
pub mod mark_kinds
pub mod mark_starts
