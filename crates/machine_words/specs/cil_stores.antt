pub mod Accesses
pub mod Fitted
