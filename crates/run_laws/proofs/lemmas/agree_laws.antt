pub mod Named
pub mod Virtual
pub mod Joined
