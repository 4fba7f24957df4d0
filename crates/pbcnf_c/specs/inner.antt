pub mod Blames
pub mod Outcomes
pub mod Shelves
