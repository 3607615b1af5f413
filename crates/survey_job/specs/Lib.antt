pub mod Buffers
pub mod Jobs
pub mod Memory
