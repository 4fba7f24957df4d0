pub mod Ahead
pub mod Appending
pub mod Front
pub mod Reading
