pub mod Tables
pub mod Readers
pub mod dependency_forms
pub mod attribute_rows
pub mod attribute_kinds
pub mod enum_names
pub mod trimming_attributes
