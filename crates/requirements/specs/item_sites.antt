pub mod Heads
pub mod Impls
