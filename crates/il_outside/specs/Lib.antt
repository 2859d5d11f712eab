pub mod Faults
pub mod Folder
pub mod Memory
pub mod Streams
