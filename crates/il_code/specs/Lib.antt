pub mod Around
pub mod Blocks
pub mod Gives
pub mod Nesting
pub mod Lengths
