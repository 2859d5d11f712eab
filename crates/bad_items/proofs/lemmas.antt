pub mod mark_flaws
pub mod attribute_flaws
