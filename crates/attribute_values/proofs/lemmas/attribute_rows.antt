pub mod Joined
pub mod Numbered
pub mod Grouping
pub mod Running
pub mod Among
