pub mod member_search
pub mod subtypes
