pub mod SumDerives
pub mod SumLaws
pub mod SumSizes
