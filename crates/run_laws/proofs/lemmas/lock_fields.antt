pub mod Texts
pub mod Layouts
pub mod Statics
pub mod Fields
