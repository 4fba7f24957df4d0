pub mod GeneratedExamples
