pub mod name_texts
pub mod slashed_names
pub mod sig_texts
pub mod descriptor_types
pub mod nested_types
