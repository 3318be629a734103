pub mod Composing
pub mod KeyLemmas
pub mod ItemLemmas
pub mod NoteLemmas
