pub mod Made
pub mod Members
