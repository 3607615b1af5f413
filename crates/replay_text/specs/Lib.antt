pub mod Replays
pub mod Handling
