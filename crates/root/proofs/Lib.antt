-- The laws of the square root that belong to no one function. Meaning is the one to read.
pub mod Whole
pub mod Digits
pub mod Midpoints
pub mod Meaning
pub mod Patterns
