pub mod Found
pub mod Low
pub mod Owners
pub mod Numbers
pub mod Mets
pub mod Members
pub mod Types
pub mod Whole
