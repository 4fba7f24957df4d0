pub mod Reading
pub mod Widened
