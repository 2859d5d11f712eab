pub mod Chains
pub mod Homes
pub mod Commas
pub mod FullNames
pub mod FullNameLaws
