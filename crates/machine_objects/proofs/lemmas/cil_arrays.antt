pub mod Naturals
pub mod Sets
pub mod Telling
