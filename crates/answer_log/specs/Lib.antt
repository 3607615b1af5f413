pub mod Rows
pub mod Entries
pub mod Writes
pub mod Parts
pub mod Steps
pub mod Logs
