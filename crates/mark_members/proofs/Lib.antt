pub mod Lists
pub mod Waiting
pub mod lemmas
