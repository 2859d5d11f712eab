pub mod cil_closing
pub mod cil_stores
pub mod cil_places
pub mod cil_objects
