pub mod ClassLemmas
pub mod NearestLemmas
pub mod ShapeLemmas
pub mod StateLemmas
pub mod UnmatchedLemmas
pub mod OpenLemmas
mod OffsetExamples
pub mod RootLemmas
pub mod WayUpLemmas
pub mod RangeLemmas
pub mod NearestModelLemmas
pub mod SideLemmas
