pub mod Found
pub mod Told
pub mod Named
pub mod Homes
pub mod Listed
pub mod Inputs
