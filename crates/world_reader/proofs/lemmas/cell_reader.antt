pub mod Mapped
pub mod Fits
