pub mod cil_raising
pub mod cil_throws
