-- What C is given.
pub mod Handed
pub mod Written
