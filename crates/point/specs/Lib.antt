-- What the contracts of `point` cite, and numbers for examples.
pub mod Point
pub mod Sides
pub mod Numbers
