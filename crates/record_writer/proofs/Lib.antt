pub mod Whole
pub mod Passed
pub mod lemmas
