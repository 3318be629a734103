pub mod AlikeLemmas
pub mod AnswerLemmas
pub mod BodyLemmas
pub mod CarryLemmas
pub mod KeptLemmas
mod KnownExamples
pub mod NodeLemmas
mod OriginExamples
pub mod PlaceLemmas
pub mod ReferLemmas
pub mod RowLemmas
pub mod SplitLemmas
pub mod ValueLemmas
