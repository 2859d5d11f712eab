pub mod Core
pub mod Values
pub mod Joined
pub mod Readings
pub mod Follows
pub mod Runs
pub mod Trims
