pub mod named_members
