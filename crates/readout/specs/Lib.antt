-- The points of an accepted route, and what a read-out of them answers and writes.
pub mod Points
pub mod ReadOff
pub mod Readout
