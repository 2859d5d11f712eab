pub mod Tokens
pub mod Core
pub mod Exprs
pub mod Worlds
pub mod Kinds
pub mod Records
