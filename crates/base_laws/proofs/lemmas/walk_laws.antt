pub mod Chains
pub mod Finds
pub mod Bases
pub mod Implied
pub mod MethodRuns
pub mod Overrides
pub mod Answering
pub mod Enclosing
