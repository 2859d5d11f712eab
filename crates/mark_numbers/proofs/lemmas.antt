pub mod mark_laws
