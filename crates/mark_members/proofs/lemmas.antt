pub mod mark_whole
pub mod mark_kinds
pub mod mark_starts
