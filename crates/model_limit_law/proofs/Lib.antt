pub mod FirstLemmas
pub mod PlaceLemmas
pub mod CountLemmas
pub mod PageLemmas
mod CountExamples
mod FirstExamples
pub mod OrderLemmas
pub mod LaidLemmas
pub mod BoundLemmas
pub mod ToldLemmas
pub mod ItemLemmas
pub mod WithinLemmas
