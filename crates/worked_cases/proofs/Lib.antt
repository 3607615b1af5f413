pub mod Few
pub mod Operations
pub mod Amounts
pub mod Ticks
pub mod Bytes
