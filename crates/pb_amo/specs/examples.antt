pub mod DerivationExamples
pub mod Examples
pub mod ProductExamples
