pub mod ByPairs
pub mod GeneralizedDerives
pub mod GeneralizedLaws
pub mod GeneralizedShort
pub mod WholeSums
