pub mod FileLemmas
pub mod Lines
pub mod Behaving
pub mod lemmas
