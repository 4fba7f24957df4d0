pub mod Examples
pub mod GuardExamples
