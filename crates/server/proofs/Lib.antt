pub mod Sums
pub mod Listed
pub mod Arrays
pub mod Pairs
