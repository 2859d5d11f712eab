pub mod Belonging
pub mod Laws
