mod LineExamples
mod ReplyExamples
pub mod Scripts
mod FirstScripts
mod EditScripts
mod CaretScripts
mod ReferenceScripts
mod PeopleScripts
mod RevokeScripts
mod ExactScripts
mod TableScripts
mod ToldScripts
mod OrderScripts
mod LimitScripts
mod CostExamples
pub mod Unchanged
pub mod BatchLemmas
