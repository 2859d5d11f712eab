pub mod Told
pub mod Kinds
