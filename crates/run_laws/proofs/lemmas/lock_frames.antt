pub mod Entering
pub mod Dispatching
