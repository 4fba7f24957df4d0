pub mod EqualExamples
pub mod Examples
pub mod StepExamples
