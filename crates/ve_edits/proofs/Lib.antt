pub mod CollectedLemmas
pub mod BracketLemmas
pub mod SpanLemmas
pub mod RoundLemmas
pub mod GrownLemmas
mod EditExamples
pub mod CopyLemmas
pub mod FollowingLemmas
pub mod StackLemmas
pub mod PieceLemmas
mod SettingLemmas
