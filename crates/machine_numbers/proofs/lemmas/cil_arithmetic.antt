pub mod Exact
pub mod Opcodes
