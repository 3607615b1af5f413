pub mod Fronts
pub mod Digits
