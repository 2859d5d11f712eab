pub mod dependency_forms
pub mod attribute_rows
pub mod attribute_kinds
pub mod attribute_types
pub mod enum_names
pub mod trimming_attributes
