pub mod Joins
pub mod Theorems
pub mod Rewrites
