pub mod PatchLemmas
mod NotedLemmas
mod OverLemmas
mod StandsLemmas
mod StepLemmas
mod UndoLemmas
mod RedoLemmas
pub mod RefusalLemmas
mod SendLemmas
mod TakenLemmas
mod MakingLemmas
mod FrontLemmas
mod SeveralLemmas
mod DropLemmas
mod EachLemmas
mod PendingLemmas
mod TakeLemmas
mod FrontSiteLemmas
mod FeedLemmas
mod InPlaceLemmas
mod LengthLemmas
mod TotalLemmas
mod SpellLemmas
mod TouchLemmas
mod StepBoundLemmas
mod SiteExamples
pub mod SettleLemmas
mod PatchExamples
pub mod EndLemmas
pub mod LeastLemmas
mod EndExamples
