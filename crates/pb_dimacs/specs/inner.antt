pub mod Fronts
pub mod WriteBufferSinks
