pub mod Exprs
pub mod Subst
pub mod Defined
pub mod Values
pub mod Same
pub mod Lists
pub mod Cells
pub mod Numbers
