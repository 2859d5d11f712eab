pub mod generic_sites
pub mod item_sites
