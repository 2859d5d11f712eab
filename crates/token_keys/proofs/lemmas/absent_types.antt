pub mod NameRows
pub mod Firsts
pub mod Tokens
pub mod Stepping
pub mod Ranging
