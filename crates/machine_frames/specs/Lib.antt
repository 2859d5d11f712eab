pub mod cil_raising
pub mod cil_frames
pub mod cil_throws
pub mod cil_dispatch
