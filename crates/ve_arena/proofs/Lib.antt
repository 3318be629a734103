mod ArenaExamples
mod MakeLemmas
mod NoteLemmas
mod SettleLemmas
mod SlotLemmas
mod WriteLemmas
