pub mod LowBytes
pub mod Chains
