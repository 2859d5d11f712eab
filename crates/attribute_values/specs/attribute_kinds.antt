pub mod Sites
pub mod Own
