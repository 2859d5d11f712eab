pub mod Needs
pub mod mark_needs
pub mod mark_calls
pub mod mark_steps
pub mod mark_named
