pub mod Lists
pub mod Grouped
pub mod Constraining
pub mod Texting
pub mod FormCases
pub mod Links
pub mod lemmas
