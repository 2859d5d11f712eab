pub mod Lists
pub mod Looping
pub mod Homes
pub mod Same
pub mod lemmas
