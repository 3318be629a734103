pub mod NoteLemmas
pub mod CarriedLemmas
pub mod TextLemmas
mod BodyExamples
pub mod SiblingLemmas
pub mod DepthLemmas
pub mod AfterLemmas
pub mod InlineLemmas
pub mod RunLemmas
pub mod BareLemmas
pub mod ContentLemmas
pub mod BlockLemmas
pub mod CopiedLemmas
pub mod LawfulLemmas
pub mod BeforeLemmas
pub mod OriginalLemmas
pub mod EndLemmas
pub mod BodyLemmas
pub mod WholeLemmas
pub mod CutLemmas
pub mod RangeLemmas
pub mod ReferringLemmas
mod ReferringExamples
mod FreshExamples
