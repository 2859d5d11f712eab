pub mod CanWrite
pub mod Written
pub mod image_writer
pub mod metadata_writer
pub mod row_writer
