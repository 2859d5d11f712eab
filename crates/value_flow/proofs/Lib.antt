pub mod Related
pub mod Listing
pub mod Numbering
pub mod Flowing
pub mod Ending
pub mod Looping
pub mod lemmas
