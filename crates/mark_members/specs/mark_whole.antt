pub mod Mapped
pub mod Assemblies
