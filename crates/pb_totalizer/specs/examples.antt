pub mod Examples
pub mod OutputExamples
