pub mod link_laws
pub mod type_laws
pub mod walk_laws
pub mod world_laws
pub mod known_laws
pub mod flaw_laws
pub mod change_laws
