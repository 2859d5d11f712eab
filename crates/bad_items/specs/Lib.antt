pub mod Rows
pub mod Programs
pub mod mark_flaws
pub mod attribute_flaws
pub mod Searches
