pub mod Sound
pub mod Ordered
pub mod Naming
pub mod Refutations
pub mod inner
