mod PieceLemmas
mod PlaceLemmas
mod ReopenLemmas
mod RefusalLemmas
mod TypedLemmas
