pub mod Views
pub mod Cells
pub mod Places
pub mod Lengths
pub mod Gathered
pub mod Numbers
pub mod Written
