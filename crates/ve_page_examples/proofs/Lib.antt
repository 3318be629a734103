mod ClassifyExamples
mod InternalExamples
mod OriginExamples
mod ReadExamples
mod ReaderExamples
mod WriteExamples
mod RangeExamples
