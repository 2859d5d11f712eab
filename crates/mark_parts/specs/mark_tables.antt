pub mod Owners
pub mod Impls
pub mod Assemblies
