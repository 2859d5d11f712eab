pub mod Objects
pub mod Here
pub mod Searching
pub mod Forms
