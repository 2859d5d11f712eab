pub mod Lists
pub mod FormCases
