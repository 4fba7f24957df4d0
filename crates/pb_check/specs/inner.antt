pub mod Calls
pub mod Judging
pub mod Keeping
pub mod Phases
pub mod Readers
pub mod Sessions
