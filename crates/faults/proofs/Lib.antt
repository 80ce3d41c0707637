-- The laws of the tests that belong to no one function. Decided is the one to read, beside specs/Accepted.
mod Ways
pub mod Rest
pub mod Linked
pub mod Decided
