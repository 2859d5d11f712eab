pub mod written_image
pub mod written_tables
pub mod layout_laws
