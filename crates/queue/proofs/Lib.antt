-- The laws of the queue and of its tree. Words, Winner, Queued and Change are the ones to read.
pub mod Order
pub mod Scan
pub mod Words
pub mod Winner
pub mod Lent
pub mod Queued
pub mod Change
pub mod Examples
mod Ways
