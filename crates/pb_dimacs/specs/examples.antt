pub mod CnfExamples
pub mod CnfReaderExamples
pub mod CnfWholeExamples
pub mod WcnfExamples
