pub mod CanWrite
