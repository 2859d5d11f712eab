pub mod There
pub mod Dispatched
pub mod Standing
pub mod Impls
pub mod Classes
pub mod Interfaces
pub mod Uses
