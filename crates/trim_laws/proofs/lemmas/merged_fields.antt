pub mod Bytes
pub mod Owners
pub mod Global
pub mod Core
pub mod Whole
