pub mod Impling
