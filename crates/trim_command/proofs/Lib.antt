pub mod GivenRead
pub mod LeftWritten
pub mod Causes
pub mod Completing
