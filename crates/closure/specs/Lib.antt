pub mod Facts
pub mod Rounds
pub mod Example
pub mod queued_closure
