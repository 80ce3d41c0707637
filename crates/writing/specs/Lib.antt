-- What a search answers, and the route's bytes.
pub mod Answers
pub mod Delivered
pub mod Writing
