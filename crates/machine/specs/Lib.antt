-- What a search does, and what holds of every state that it comes through.
pub mod Search
pub mod Sound
pub mod Before
pub mod Crowded
pub mod Buffers
