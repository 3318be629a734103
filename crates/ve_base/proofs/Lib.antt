mod Examples
pub mod FeedLemmas
pub mod NamesLemmas
mod PartsLemmas
