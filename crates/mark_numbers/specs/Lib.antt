pub mod Numbers
pub mod Starts
pub mod mark_laws
