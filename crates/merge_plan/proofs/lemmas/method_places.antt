pub mod Sizing
pub mod Addresses
pub mod Modulo
