-- The laws of the read-out that belong to no one function.
pub mod Placed
pub mod Chained
pub mod Ended
pub mod Listing
pub mod Answered
pub mod Legs
pub mod Lengths
