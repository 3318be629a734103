pub mod OnLiterals
pub mod PageExamples
mod ReadingExamples
mod LimitExamples
mod OpenExamples
