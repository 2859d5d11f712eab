pub mod Told
pub mod Taken
pub mod Behaves
pub mod Trim
pub mod Colliding
pub mod program_trim
