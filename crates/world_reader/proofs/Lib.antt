pub mod Demands
pub mod First
pub mod lemmas
