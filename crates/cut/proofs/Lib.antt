-- What belongs to no one function: the arm of a definition that a match leads to.
pub mod Arms
