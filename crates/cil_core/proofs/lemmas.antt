pub mod cil_members
pub mod cil_exceptions
pub mod cil_text_members
pub mod cil_console_members
pub mod cil_type_members
