pub mod mark_facts
pub mod mark_tables
pub mod mark_rows
pub mod mark_sizes
pub mod mark_core_refs
