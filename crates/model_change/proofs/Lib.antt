pub mod Fits
pub mod AttributeLemmas
pub mod AttributeJoin
pub mod InverseLemmas
pub mod InverseNormal
pub mod FilledLemmas
pub mod PlacedLemmas
pub mod JoinLemmas
pub mod JoinLaw
pub mod JoinLawful
pub mod JoinNormal
pub mod JoinRestorable
pub mod JoinLengths
pub mod JoinListLaw
pub mod ReversalLaw
pub mod FaultLemmas
pub mod ActiveLemmas
pub mod StoreLemmas
mod ExampleItems
mod AttributeExamples
mod TransactionExamples
mod FaultExamples
mod InverseExamples
mod JoinExamples
mod ReplayExamples
mod StoreExamples
mod TouchExamples
pub mod TouchLemmas
pub mod BroughtLemmas
