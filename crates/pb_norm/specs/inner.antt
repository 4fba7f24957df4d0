pub mod Kept
pub mod Nets
pub mod Open
pub mod Signs
pub mod Tight
