-- Document 01's whole example.
pub mod Example
