-- The laws of the judge that belong to no one function.
pub mod Ending
pub mod Following
pub mod Looking
pub mod Exact
pub mod Numbers
