pub mod Places
pub mod Methods
pub mod Graphs
