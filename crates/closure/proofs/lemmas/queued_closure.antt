pub mod Lists
pub mod Going
