pub mod ReplyExamples
mod ListLemmas
mod WordLemmas
mod TestLemmas
mod CommandExamples
mod LineLemmas
pub mod BracketExamples
pub mod Escapes
pub mod MemberLemmas
pub mod RangeLemmas
pub mod RunLemmas
pub mod ShownLemmas
mod ApartLemmas
mod SettingLemmas
mod BegunLemmas
