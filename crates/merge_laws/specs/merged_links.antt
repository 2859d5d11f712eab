pub mod Laws
pub mod Cycles
pub mod Repeats
pub mod Joined
