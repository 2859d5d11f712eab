pub mod DigitLemmas
pub mod InputRead
pub mod Causes
pub mod Completing
