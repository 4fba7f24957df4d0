pub mod GateLits
pub mod LevelParts
pub mod Rows
pub mod RunningSums
