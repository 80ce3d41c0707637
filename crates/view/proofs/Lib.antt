-- What the code keeps of a node gives document 01's steps.
pub mod Seen
