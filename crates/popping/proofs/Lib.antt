-- The laws of the pop loop.
pub mod Watching
pub mod Stepping
pub mod Lengths
pub mod Running
