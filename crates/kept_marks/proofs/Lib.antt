pub mod Flagged
pub mod Told
