pub mod written_image
pub mod record_laws
pub mod written_tables
pub mod layout_laws
