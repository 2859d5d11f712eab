pub mod ItemLemmas
pub mod PlaceLemmas
pub mod Placing
pub mod TextLemmas
pub mod Gathering
pub mod Loading
