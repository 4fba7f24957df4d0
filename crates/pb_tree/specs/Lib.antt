pub mod Halves
pub mod Pairs
pub mod Places
pub mod Scheme
pub mod Tree
pub mod TreeSteps
pub mod Walks
pub mod laws
