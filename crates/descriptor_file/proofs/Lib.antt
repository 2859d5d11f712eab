pub mod Utf8
pub mod Places
pub mod Escapes
pub mod Steps
