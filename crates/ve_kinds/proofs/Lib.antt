mod Examples
pub mod TagLemmas
pub mod LawLemmas
