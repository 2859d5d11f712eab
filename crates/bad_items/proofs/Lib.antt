pub mod Kept
pub mod Generic
pub mod Placing
pub mod lemmas
pub mod Searching
pub mod Waiting
