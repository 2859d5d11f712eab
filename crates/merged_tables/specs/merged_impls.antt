pub mod Impls
pub mod Laws
