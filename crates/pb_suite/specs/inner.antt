pub mod Opening
pub mod Optima
pub mod Refuting
pub mod Runs
pub mod Saying
