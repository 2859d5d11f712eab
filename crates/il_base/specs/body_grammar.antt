pub mod Opcodes
pub mod Faults
pub mod Instructions
pub mod HandlerRules
pub mod Bodies
pub mod BodySpelling
pub mod FirstFault
