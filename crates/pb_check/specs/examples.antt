pub mod WalkExamples
