mod SiteExamples
mod SpanExamples
