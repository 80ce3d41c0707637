-- How long the rooms are.
pub mod Rooms
