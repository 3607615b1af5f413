pub mod Zero
pub mod Widths
