pub mod Constructors
pub mod Tokens
pub mod Walk
