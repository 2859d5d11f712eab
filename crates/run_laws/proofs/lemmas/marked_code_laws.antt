pub mod Owners
pub mod Uses
pub mod Begins
pub mod Shown
pub mod Operands
pub mod Methods
