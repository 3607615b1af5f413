pub mod Texts
pub mod Rooms
