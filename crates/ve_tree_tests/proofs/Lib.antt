mod ItemExamples
mod OffsetExamples
mod StoreExamples
mod TreeExamples
