pub mod Giving
pub mod Objects
pub mod Texts
pub mod Console
pub mod Types
pub mod Members
