pub mod Order
pub mod First
pub mod Listing
pub mod Methods
pub mod There
