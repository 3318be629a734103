pub mod StopLemmas
pub mod CitedLemmas
pub mod AppliedLemmas
pub mod DraftLemmas
pub mod WantLemmas
pub mod DraftExamples
pub mod MoveLemmas
pub mod CaretLemmas
mod CaretExamples
pub mod PastedLemmas
pub mod BatchLemmas
pub mod TypedCaretLemmas
pub mod TypingLemmas
mod BatchExamples
mod CompletionLemmas
