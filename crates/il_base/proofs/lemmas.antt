pub mod first_places
pub mod cli_format
pub mod blob_grammar
pub mod body_grammar
pub mod world_model
pub mod core_table
