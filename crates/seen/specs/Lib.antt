-- The table of nodes that a stalled search has met: where its words lie, and what it holds.
pub mod Table
pub mod Kept
