pub mod reference_scopes
pub mod own_members
pub mod reference_assemblies
pub mod number_tokens
pub mod key_tokens
