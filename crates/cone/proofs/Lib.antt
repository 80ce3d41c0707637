-- What belongs to no one function: the cases that an arm leads to, the laws of the clip and of landing, and examples.
pub mod Cases
pub mod Clip
pub mod Landing
pub mod Examples
