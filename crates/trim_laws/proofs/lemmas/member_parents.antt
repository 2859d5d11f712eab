pub mod Keyed
pub mod Parents
pub mod Stand
pub mod Whole
