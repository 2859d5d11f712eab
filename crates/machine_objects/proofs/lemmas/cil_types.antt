pub mod Casting
pub mod Unboxing
pub mod Operands
