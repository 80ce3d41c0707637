-- The laws of the layout.
pub mod Rows
pub mod Records
pub mod Queued
