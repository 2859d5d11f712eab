pub mod Types
pub mod Arrays
