-- The laws of the route file that belong to no one function. Verdicts is the one to read.
pub mod Bytes
pub mod Find
pub mod Turns
pub mod Trails
pub mod Verdicts
pub mod Routes
pub mod Cut
pub mod Examples
