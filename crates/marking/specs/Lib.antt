pub mod Starting
pub mod Marks
pub mod Holding
pub mod mark_known
pub mod marking_rules
