pub mod Invoking
pub mod Making
pub mod Returning
