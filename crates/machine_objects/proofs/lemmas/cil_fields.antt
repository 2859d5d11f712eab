pub mod Chosen
pub mod FieldTypes
pub mod Kept
pub mod ReadyFields
pub mod Texts
pub mod Widths
