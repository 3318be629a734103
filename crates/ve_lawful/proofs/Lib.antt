mod Examples
pub mod PieceLemmas
pub mod StackLemmas
pub mod WalkLemmas
