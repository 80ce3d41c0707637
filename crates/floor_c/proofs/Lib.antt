-- What the look at a floor tells C.
pub mod Marks
