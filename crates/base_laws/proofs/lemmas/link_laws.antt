pub mod Lists
pub mod SignatureNames
pub mod Places
pub mod Tell
pub mod NoArguments
