pub mod CoreRefs
pub mod Firsts
