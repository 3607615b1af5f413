pub mod Permits
pub mod States
pub mod Resumes
pub mod Calls
pub mod Runs
