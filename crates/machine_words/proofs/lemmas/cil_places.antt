pub mod Backs
pub mod Held
pub mod Mixed
pub mod Ways
