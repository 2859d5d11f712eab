pub mod Lengths
pub mod Places
pub mod Laws
