pub mod Lists
pub mod Accessing
pub mod FormCases
