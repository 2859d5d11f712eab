pub mod Values
pub mod Rows
pub mod Tables
pub mod FieldData
pub mod Laid
pub mod Limits
