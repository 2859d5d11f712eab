pub mod Vectors
pub mod Elements
pub mod Counts
