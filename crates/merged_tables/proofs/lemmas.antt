pub mod merged_rows
pub mod merged_texts
pub mod merged_members
pub mod merged_types
pub mod merged_maps
pub mod merged_sorted
pub mod merged_impls
pub mod merged_field_rvas
