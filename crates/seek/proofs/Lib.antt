-- The laws of seeking that belong to no one function.
pub mod Seeking
pub mod Reading
