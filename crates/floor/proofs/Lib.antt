-- The laws of the look at a floor that belong to no one function. Exact is the one to read, beside specs/Exactly.
pub mod Exact
pub mod Looked
pub mod Planned
pub mod Asking
mod Ways
