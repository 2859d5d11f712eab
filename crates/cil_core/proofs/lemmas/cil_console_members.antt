pub mod FillLemmas
pub mod Bits
pub mod LineLemmas
pub mod ElementLemmas
pub mod ReadLemmas
