pub mod Tables
pub mod Checks
pub mod Arrays
