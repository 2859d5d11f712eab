pub mod Alone
pub mod Callers
pub mod Opened
pub mod RunningFrames
