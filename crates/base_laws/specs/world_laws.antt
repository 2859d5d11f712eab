pub mod Tokens
pub mod Homes
pub mod Inputs
