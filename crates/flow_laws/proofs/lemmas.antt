pub mod Counting
pub mod Closing
pub mod Depthing
pub mod Carrying
pub mod Sourcing
