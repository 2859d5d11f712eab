pub mod moved_parts
pub mod kept_tables
pub mod method_places
