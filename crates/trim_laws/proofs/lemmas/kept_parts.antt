pub mod Named
pub mod Uses
pub mod Callees
pub mod Parts
pub mod Items
pub mod Mets
pub mod Whole
pub mod Core
