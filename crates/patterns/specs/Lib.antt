-- What the contracts of the crates for C cite of bit patterns and numbers.
pub mod Patterns
