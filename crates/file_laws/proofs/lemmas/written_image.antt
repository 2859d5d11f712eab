pub mod Numbers
pub mod Sizes
pub mod Headers
pub mod Parts
pub mod Image
pub mod Names
pub mod Heaps
pub mod Metadata
