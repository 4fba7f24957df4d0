pub mod Replays
pub mod PieceFacts
