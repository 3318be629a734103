pub mod Premises
pub mod SourceLemmas
pub mod PartsUtf8
pub mod BodyUtf8
pub mod OpenLemmas
pub mod NodesLemmas
pub mod ShapeLemmas
pub mod TileLemmas
pub mod SameLemmas
pub mod PlaceLemmas
pub mod LawLemmas
pub mod FollowedNodes
pub mod MarkedLemmas
pub mod BareLemmas
pub mod InlinedLemmas
pub mod KeptLemmas
pub mod FormedNodes
pub mod NeatForests
pub mod ContentLemmas
pub mod ContentText
pub mod EscapeLemmas
pub mod BlockText
pub mod BlockReads
pub mod TagLemmas
pub mod CleanLemmas
pub mod BlankLemmas
pub mod BlockClean
pub mod NodesRead
pub mod OneLemmas
pub mod ReadLemmas
pub mod FormKinds
pub mod FormLemmas
pub mod FreshOpens
pub mod FreshLemmas
pub mod KindFits
pub mod NestLemmas
pub mod LawfulLemmas
pub mod OpenPageLemmas
pub mod OriginLemmas
pub mod JsonLemmas
pub mod ComposedLemmas
pub mod SpanLemmas
pub mod SpanCuts
pub mod OriginPlaces
pub mod RangeLemmas
pub mod MadeRefers
pub mod PageRefers
mod StringLemmas
mod LexLemmas
mod TreeLemmas
pub mod ReadUtf8
pub mod OwnersUtf8
pub mod EditsRefer
pub mod BodyReplaced
pub mod ReferenceLemmas
pub mod WholeRangeLemmas
mod FormCases
mod SpanExamples
mod ComposedExamples
mod EditsExamples
mod ReplacedExamples
