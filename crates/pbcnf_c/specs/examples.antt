pub mod BoundExamples
pub mod StatementExamples
