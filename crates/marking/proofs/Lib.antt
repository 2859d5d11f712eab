pub mod Lists
pub mod Same
pub mod Sets
pub mod Numbered
pub mod lemmas
