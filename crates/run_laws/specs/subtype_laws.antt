pub mod Gone
pub mod Laws
