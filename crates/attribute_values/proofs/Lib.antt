pub mod Pushing
pub mod lemmas
