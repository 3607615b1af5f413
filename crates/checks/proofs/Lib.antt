pub mod Weights
pub mod Fronts
pub mod Searches
pub mod Passed
pub mod Made
pub mod Searching
pub mod Checked
