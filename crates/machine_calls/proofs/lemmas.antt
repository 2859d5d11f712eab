pub mod cil_invoking
pub mod cil_calls
pub mod cil_making
pub mod cil_returns
