pub mod Words
pub mod Input
pub mod Turn
pub mod Answer
pub mod Reporting
pub mod Complete
