pub mod Told
pub mod Slots
pub mod Unreferenced
