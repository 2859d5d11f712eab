pub mod Reading
pub mod Added
pub mod Keys
pub mod Agreeing
pub mod Merges
pub mod Tokens
