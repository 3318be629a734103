pub mod LineLemmas
mod TextExamples
pub mod PageLemmas
