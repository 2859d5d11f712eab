pub mod Alone
pub mod Lists
pub mod Rules
pub mod Within
pub mod Exact
pub mod Roots
pub mod Numbers
