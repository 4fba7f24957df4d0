pub mod Claims
pub mod Early
pub mod Obligations
pub mod Tops
