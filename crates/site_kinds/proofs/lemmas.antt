pub mod annotation_flags
