pub mod MemoryLaws
pub mod PieceReading
