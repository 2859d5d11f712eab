pub mod Reading
pub mod Writing
pub mod Answer
pub mod Complete
