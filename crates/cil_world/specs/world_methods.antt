pub mod Rows
pub mod Outside
pub mod Bodies
pub mod Places
