pub mod Coded
pub mod Numbered
