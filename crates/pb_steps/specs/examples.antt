pub mod Examples
pub mod LineExamples
pub mod StepTextExamples
