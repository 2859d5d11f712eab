pub mod Both
pub mod Ints
pub mod Longer
