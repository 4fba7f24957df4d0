-- How the reader goes from token to token: these serve the proof that it finds what the grammar says, and the first fault.
pub mod Automaton
pub mod Front
pub mod Heads
pub mod Moves
pub mod Steps
pub mod Symbols
pub mod Takes
