pub mod PlaceLemmas
pub mod MovedLemmas
