pub mod BoundExamples
pub mod CostExamples
pub mod GroupExamples
pub mod SizeExamples
