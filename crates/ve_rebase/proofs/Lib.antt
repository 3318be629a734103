pub mod SpanLemmas
pub mod ReadLemmas
pub mod PlaceLemmas
pub mod ConflictLemmas
pub mod PairLemmas
pub mod LengthLemmas
pub mod ShiftedLemmas
pub mod RangeLemmas
pub mod RowLemmas
pub mod ColumnLemmas
pub mod WrittenLemmas
pub mod NormalLemmas
pub mod EntryLemmas
pub mod UntilLemmas
mod UnderLemmas
mod GroupLemmas
mod MovedLemmas
mod UnderExamples
