pub mod Counted
pub mod Found
pub mod Linked
pub mod Names
pub mod Owners
pub mod Params
pub mod Wanted
