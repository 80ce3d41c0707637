-- The laws of edges and turn vertices that belong to no one function.
mod Containing
mod Finding
pub mod Inside
pub mod Turned
pub mod Held
