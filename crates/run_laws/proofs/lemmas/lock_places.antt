pub mod Options
pub mod Closing
pub mod Stores
pub mod Places
pub mod Puts
pub mod Indirect
