-- The laws of making nodes.
pub mod Keeping
pub mod Parts
pub mod Looping
