pub mod Naming
pub mod Looking
pub mod Elements
pub mod Decided
