pub mod AnyStack
pub mod Popping
pub mod Reaching
