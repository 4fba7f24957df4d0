pub mod Filling
pub mod Slots
pub mod Tellable
