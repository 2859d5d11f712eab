pub mod AccessorRows
pub mod Gathering
pub mod ImplRows
pub mod KindRows
pub mod Lists
pub mod MapRows
pub mod RunRows
pub mod Upward
