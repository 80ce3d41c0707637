-- What belongs to no one function. Laws is the one to read, Turns what a caller's loop cites, Examples has walks that antt computes; Cuts and Wrap serve the
-- proofs of the functions.
pub mod All
pub mod Laws
pub mod Turns
pub mod Ends
pub mod Examples
pub mod Cuts
pub mod Wrap
