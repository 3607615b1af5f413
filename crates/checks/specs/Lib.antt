pub mod Checks
pub mod Rows
pub mod CheckedRows
