pub mod Room
pub mod Weakenings
pub mod inner
