pub mod Outers
pub mod Named
pub mod Forwarded
pub mod Indexing
pub mod Walks
pub mod Pushing
