-- The laws of f32 that belong to no one function.
pub mod Tests
pub mod Nan
pub mod Fraction
pub mod Units
pub mod Rank
pub mod Order
