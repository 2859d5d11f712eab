pub mod Numbers
pub mod Doings
pub mod Flows
pub mod stack_depths
pub mod slot_flow
pub mod body_graph
