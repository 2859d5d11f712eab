pub mod Merge
pub mod Numbering
pub mod NewNumbers
pub mod Kept
