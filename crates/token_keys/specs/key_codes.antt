pub mod Codes
pub mod KeyCodes
pub mod Keys
pub mod Laws
