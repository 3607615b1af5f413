pub mod Rows
pub mod Reduced
pub mod Elimination
pub mod Witness
pub mod Theorems
