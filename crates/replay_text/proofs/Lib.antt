pub mod Newlines
pub mod Rooms
pub mod Written
pub mod Brief
pub mod Handling
pub mod Logged
pub mod Progress
