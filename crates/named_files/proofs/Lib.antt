pub mod Folders
pub mod NamesRead
pub mod Told
