pub mod Turned
pub mod lemmas
