pub mod ByForm
pub mod Steps
pub mod Simple
pub mod Runs
