pub mod cil_compare
pub mod cil_arithmetic
pub mod cil_conversions
pub mod cil_pointers
pub mod cil_numbers
pub mod cil_operands
