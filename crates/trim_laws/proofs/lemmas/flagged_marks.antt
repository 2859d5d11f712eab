pub mod Homes
pub mod Classes
pub mod Needed
pub mod Owners
pub mod Follow
