pub mod Commands
pub mod Fit
