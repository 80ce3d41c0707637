-- The laws of bytes and words that belong to no one function.
pub mod Bytes
pub mod Runs
pub mod Laws
