pub mod Params
pub mod Spelled
