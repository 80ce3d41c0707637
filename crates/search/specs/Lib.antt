-- The search from end to end.
pub mod Whole
