pub mod GrownLemmas
pub mod CauseLemmas
pub mod RelinkLemmas
pub mod ReadyLemmas
pub mod PerformLemmas
pub mod SelectedLemmas
pub mod CutLemmas
pub mod BackLemmas
pub mod RemovedLemmas
pub mod OtherLemmas
pub mod AdmitLemmas
pub mod StayLemmas
mod TrialLemmas
pub mod ReturnLemmas
pub mod NoteLemmas
pub mod AllowedLemmas
pub mod GoBackLemmas
pub mod BackExamples
mod CountedLemmas
pub mod CountedExamples
