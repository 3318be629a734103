pub mod JoinLemmas
pub mod DecimalLemmas
pub mod DrawLemmas
pub mod PageLemmas
pub mod LineLemmas
pub mod GeneratedExamples
