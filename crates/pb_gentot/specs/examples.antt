pub mod BoundTableExamples
pub mod Examples
