pub mod step_rules
pub mod view_rules
pub mod merge_rules
pub mod site_rules
