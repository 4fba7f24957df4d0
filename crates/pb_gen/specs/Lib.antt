pub mod Draws
pub mod Drawn
pub mod Generated
pub mod examples
