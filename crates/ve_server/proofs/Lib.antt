mod ServerLemmas
mod TurnLemmas
mod ServingExamples
