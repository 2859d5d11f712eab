pub mod Answered
pub mod CoreRows
pub mod Accessors
