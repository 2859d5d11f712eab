pub mod Placed
pub mod Filling
pub mod Beginning
pub mod Asking
