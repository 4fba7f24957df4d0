pub mod Words
pub mod Conditions
pub mod Columns
pub mod examples
