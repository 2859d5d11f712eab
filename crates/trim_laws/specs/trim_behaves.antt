pub mod Laws
pub mod Behaves
