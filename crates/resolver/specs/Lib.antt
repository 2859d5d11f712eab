pub mod Kinds
pub mod type_links
pub mod member_links
