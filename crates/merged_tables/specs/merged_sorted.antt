pub mod Laws
pub mod Owned
