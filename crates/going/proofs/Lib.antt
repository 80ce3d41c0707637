-- The laws of the walk round a node's polygon that belong to no one function.
pub mod Corners
pub mod Rounds
pub mod Left
pub mod Stepping
pub mod Stands
pub mod Parts
