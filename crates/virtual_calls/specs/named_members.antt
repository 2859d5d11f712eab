pub mod Accessors
pub mod Counts
pub mod Hiding
pub mod Impls
pub mod Kinds
pub mod Named
pub mod Runs
pub mod Mapped
