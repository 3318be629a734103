pub mod RetainedLemmas
pub mod InsertedLemmas
pub mod ExampleItems
pub mod RetainedExamples
pub mod InsertedExamples
pub mod ToldLemmas
pub mod ToldExamples
