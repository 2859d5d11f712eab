pub mod Impls
pub mod Interfaces
pub mod Slots
pub mod named_members
