pub mod Numbers
pub mod Tokens
pub mod Signatures
pub mod Reading
pub mod Laws
pub mod Values
