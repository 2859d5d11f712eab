pub mod cil_invoking
pub mod cil_returns
