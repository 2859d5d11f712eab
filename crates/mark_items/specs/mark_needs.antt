pub mod Owners
pub mod Accessors
pub mod Forms
pub mod Codes
pub mod Enclosing
