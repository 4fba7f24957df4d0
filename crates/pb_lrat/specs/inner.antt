pub mod Looks
pub mod Quick
pub mod Marks
pub mod Stores
pub mod Trails
