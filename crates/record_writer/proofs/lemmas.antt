pub mod byte_writer
pub mod image_writer
pub mod metadata_writer
pub mod row_writer
