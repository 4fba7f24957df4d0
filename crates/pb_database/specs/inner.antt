pub mod Conflicts
pub mod Indexed
pub mod Mirrors
pub mod Showing
pub mod Slots
pub mod Packing
pub mod ShortLits
pub mod Units
