pub mod PlainLayers
pub mod Settled
pub mod Settling
pub mod StandingLayers
