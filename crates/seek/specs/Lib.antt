-- Whether a record is a step out of a node.
pub mod Seek
