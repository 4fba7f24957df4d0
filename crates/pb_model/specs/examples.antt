pub mod Examples
pub mod SolutionExamples
