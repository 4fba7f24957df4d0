pub mod BoundedExamples
