pub mod FieldRvas
pub mod Laws
