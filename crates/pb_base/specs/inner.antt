pub mod Scans
pub mod Packing
pub mod SignedLits
