pub mod Outs
pub mod Arguments
