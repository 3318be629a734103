pub mod SameLemmas
pub mod PlainLemmas
pub mod LawLemmas
pub mod VerdictLemmas
pub mod TreeLemmas
pub mod OnlyLemmas
pub mod LawfulTreeLemmas
pub mod NodeAtLemmas
pub mod NearestLemmas
pub mod ExampleItems
mod SameExamples
mod PlainExamples
mod LawExamples
mod TreeExamples
mod NodeAtExamples
mod OffsetExamples
mod MarkExamples
