pub mod Implied
pub mod Found
pub mod Declared
