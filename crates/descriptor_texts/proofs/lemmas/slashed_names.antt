pub mod ChainLemmas
pub mod Ranging
pub mod Naming
pub mod Zipping
