pub mod Groups
pub mod Tables
pub mod Uses
pub mod member_search
pub mod subtypes
