pub mod Exact
pub mod Follows
pub mod Meant
pub mod Ran
pub mod Refuted
