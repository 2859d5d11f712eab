pub mod program_trim
