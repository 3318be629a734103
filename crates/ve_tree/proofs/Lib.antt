mod IsTreeExamples
mod TrialExamples
pub mod GrownLemmas
pub mod ReadLemmas
pub mod ReachedLemmas
pub mod BuildLemmas
pub mod SeekLemmas
pub mod WalkLemmas
pub mod ClimbLemmas
pub mod ReadsLemmas
pub mod FitsLemmas
pub mod DistinctLemmas
pub mod NodesLemmas
pub mod NearLemmas
pub mod LandmarkLemmas
pub mod GapLemmas
pub mod LeftMarkLemmas
pub mod PlaceLemmas
pub mod ShiftLemmas
pub mod ShapeLemmas
pub mod RunLemmas
pub mod RowLemmas
pub mod RowRangeLemmas
pub mod NeighbourLemmas
pub mod BesideLemmas
pub mod FrameLemmas
pub mod CutLemmas
pub mod CloseLemmas
mod FollowLemmas
pub mod LiveLemmas
