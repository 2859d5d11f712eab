pub mod Flags
pub mod Steps
pub mod Following
pub mod lemmas
