pub mod Listed
pub mod There
