pub mod Sorting
pub mod Tokens
