mod AppliedLemmas
mod CaretExamples
mod CellExamples
mod EditExamples
mod ChangeExamples
mod RepairExamples
