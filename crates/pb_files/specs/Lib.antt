pub mod Calls
pub mod Replay
pub mod Asked
pub mod Pieces
pub mod inner
