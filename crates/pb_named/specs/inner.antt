pub mod Numbering
pub mod Columns
pub mod Kept
