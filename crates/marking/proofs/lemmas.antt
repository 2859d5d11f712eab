pub mod mark_known
pub mod marking_rules
