pub mod CitesLemmas
