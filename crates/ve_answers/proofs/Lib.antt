pub mod AskedLemmas
pub mod CiteLemmas
pub mod NodeLemmas
pub mod NearLemmas
pub mod PageLemmas
pub mod WordLemmas
mod ReplyExamples
