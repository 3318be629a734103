pub mod ExampleItems
mod InsertExamples
mod RemoveExamples
mod ShapeExamples
mod ListExamples
mod TableExamples
mod SelectExamples
