pub mod Chosen
pub mod Known
pub mod Lent
pub mod Ready
pub mod Suits
