pub mod Lists
pub mod OfKinds
pub mod Seeking
pub mod Needing
pub mod Naming
pub mod Wanted
pub mod lemmas
