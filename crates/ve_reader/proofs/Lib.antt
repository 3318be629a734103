pub mod JoinLemmas
pub mod EvenLemmas
mod ReadLemmas
pub mod ExtendLemmas
pub mod LeafLaws
pub mod AttrLemmas
pub mod TagLemmas
pub mod DraftLemmas
mod OwnerLemmas
