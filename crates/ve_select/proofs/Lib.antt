pub mod PassedLemmas
pub mod RunLemmas
pub mod CharLemmas
pub mod PassingLemmas
pub mod NextLemmas
