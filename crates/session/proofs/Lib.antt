pub mod Rows
pub mod Own
pub mod Followed
pub mod Witnessed
pub mod Resuming
pub mod Running
