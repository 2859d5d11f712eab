pub mod Fields
pub mod Types
