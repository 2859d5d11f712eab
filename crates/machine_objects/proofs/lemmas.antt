pub mod cil_fields
pub mod cil_types
pub mod cil_arrays
