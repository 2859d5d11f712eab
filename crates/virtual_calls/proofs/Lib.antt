pub mod Finding
pub mod Impling
pub mod Matching
pub mod Running
pub mod Walking
pub mod Slotting
pub mod lemmas
