pub mod met_parts
pub mod met_order
pub mod reference_types
pub mod member_rows
pub mod merged_attributes
pub mod assembly_tokens
pub mod output_tokens
