pub mod First
pub mod Nesting
pub mod Names
pub mod Forwarding
pub mod Scopes
pub mod Index
pub mod References
pub mod Linking
