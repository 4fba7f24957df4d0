pub mod NamedProblems
pub mod NamedTerms
pub mod Names
pub mod Products
pub mod Kept
pub mod inner
