pub mod EditLemmas
mod RestorableLemmas
pub mod OrderLemmas
mod FineLemmas
pub mod ApartLemmas
pub mod ApartEditLemmas
mod ApartExamples
pub mod SelectLemmas
mod CutLemmas
pub mod NextLemmas
mod SelectionExamples
pub mod BracketLemmas
pub mod NodeLemmas
pub mod InsertLemmas
pub mod TypingLemmas
mod FragmentLemmas
pub mod RemoveLemmas
mod RemoveKeptLemmas
mod RemoveLawfulLemmas
pub mod ShapeLemmas
pub mod WrapLemmas
mod NeutralLemmas
mod MarkedLemmas
mod ListLemmas
pub mod IndentLemmas
pub mod OutdentLemmas
pub mod TablePlaceLemmas
pub mod SpanLemmas
pub mod TableFineLemmas
pub mod TableLawfulLemmas
pub mod TableGrowLemmas
pub mod LeastLemmas
pub mod LayLemmas
pub mod ColumnLemmas
pub mod LinkLemmas
pub mod SiblingLemmas
pub mod TableSetLemmas
pub mod TableLinesLemmas
pub mod TableCellLemmas
pub mod CellsOutLemmas
pub mod CellsReadLemmas
pub mod CellRowLemmas
pub mod RowOutLemmas
pub mod RowOutGridLemmas
pub mod ColOutLemmas
pub mod ColOutGridLemmas
mod ResultLemmas
mod ResultExamples
