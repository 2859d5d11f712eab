pub mod Enclosers
pub mod Nesting
pub mod Rounds
pub mod CoreValues
pub mod Cycles
pub mod Repeats
pub mod Joined
