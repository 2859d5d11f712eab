pub mod Lists
pub mod Flows
