pub mod Words
pub mod Types
pub mod Fits
pub mod Slots
pub mod Cases
pub mod Definitions
