pub mod Uses
pub mod Decisions
