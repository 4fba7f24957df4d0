pub mod BenchLemmas
pub mod BoundRows
pub mod CommandLemmas
pub mod EncodeLemmas
pub mod Lines
pub mod Rows
pub mod TableRows
pub mod TakenLemmas
pub mod WantedLemmas
mod DigitLemmas
mod OptionLemmas
