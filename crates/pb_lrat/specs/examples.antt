pub mod LratExamples
