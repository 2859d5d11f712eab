pub mod Callees
pub mod Settled
