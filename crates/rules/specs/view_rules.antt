pub mod Members
pub mod Code
pub mod Methods
pub mod Layouts
pub mod Answers
pub mod Sample
pub mod Examples
