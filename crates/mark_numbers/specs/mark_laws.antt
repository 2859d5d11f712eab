pub mod Brings
