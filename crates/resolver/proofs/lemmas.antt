pub mod type_links
pub mod core_names
pub mod member_links
