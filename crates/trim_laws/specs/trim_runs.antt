pub mod Laws
pub mod Entry
