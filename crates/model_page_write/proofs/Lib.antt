mod WrittenExamples
mod LongExamples
mod ReadBackExamples
mod JoinedExamples
mod RangeExamples
