-- What belongs to no one function: the cases that a test leads to, and the laws of points and sides.
pub mod Cases
pub mod Laws
