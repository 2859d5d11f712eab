pub mod Bodies
pub mod Calls
pub mod Ties
pub mod generic_sites
pub mod item_sites
