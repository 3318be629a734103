pub mod FitFacts
pub mod ReadParts
pub mod ApartParts
pub mod Unreferred
pub mod WholeParts
pub mod OwnSource
pub mod RunParts
pub mod SourceRows
pub mod OriginalNodes
pub mod LevelTexts
pub mod OwnContent
pub mod WrittenBlocks
pub mod JoinedParts
pub mod LeafParts
pub mod MarkedLevels
pub mod WholeContent
pub mod KeptBlocks
pub mod MixedContent
pub mod NestedNodes
pub mod StandingBlocks
pub mod BodyPlaces
pub mod KeptBackLemmas
pub mod StandingBytes
mod KeptExamples
mod BytesExamples
