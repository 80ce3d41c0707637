-- What belongs to no one function: what the walk of an edge has written.
pub mod Written
