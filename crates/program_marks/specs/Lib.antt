pub mod named_world
