pub mod Fronts
pub mod Made
pub mod Lines
