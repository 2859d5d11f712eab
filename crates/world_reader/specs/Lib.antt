pub mod Tables
pub mod cell_reader
pub mod user_strings
pub mod row_reader
