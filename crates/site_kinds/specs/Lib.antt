pub mod Known
pub mod annotation_flags
