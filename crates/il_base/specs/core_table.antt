pub mod Names
pub mod Members
pub mod Record
pub mod Kinds
pub mod Laws
