pub mod Numbers
pub mod Tokens
pub mod Named
pub mod Whole
