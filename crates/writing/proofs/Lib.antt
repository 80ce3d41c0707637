-- The laws of the route's bytes.
pub mod Chaining
pub mod Written
