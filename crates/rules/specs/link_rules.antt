pub mod Types
pub mod Signatures
pub mod Members
pub mod Cycles
pub mod Faults
pub mod CoreNames
pub mod Linked
pub mod Laws
