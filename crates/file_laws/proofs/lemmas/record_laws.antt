pub mod Rows
pub mod Coded
pub mod Columns
pub mod Record
pub mod Runs
pub mod Spelled
