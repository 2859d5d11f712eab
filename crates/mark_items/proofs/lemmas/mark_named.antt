pub mod Lists
pub mod Seeking
pub mod Setting
