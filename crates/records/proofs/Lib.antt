-- The laws of records by value that belong to no one function.
pub mod Stored
pub mod Read
pub mod Known
