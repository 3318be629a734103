mod StandingExamples
mod ForestExamples
mod PageExamples
mod FaultExamples
pub mod AttrReading
pub mod TokenRuns
pub mod ForestLaws
pub mod Only
pub mod Back
pub mod Found
pub mod FoundTokens
pub mod Right
pub mod Proved
pub mod Stays
pub mod StaysTags
pub mod StaysTokens
pub mod Escape
pub mod CanWrite
pub mod Utf
pub mod BodyPlace
pub mod Clean
pub mod CleanTokens
pub mod Settled
pub mod Cut
pub mod Goes
pub mod BodyOnly
