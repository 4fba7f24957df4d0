pub mod ColumnExamples
pub mod ConditionExamples
