pub mod Uses
pub mod Worlds
pub mod Grouped
pub mod Owned
pub mod lemmas
