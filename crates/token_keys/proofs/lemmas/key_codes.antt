pub mod SigCodes
pub mod SameSig
pub mod Distinct
pub mod Keyed
