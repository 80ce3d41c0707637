-- What the reader's proofs share, and the laws of the reader that belong to no one function.
pub mod Passed
