-- The laws of the search as defined.
pub mod Plus
pub mod Fitting
pub mod Counting
pub mod Numbers
pub mod Kept
pub mod Turning
pub mod Recording
pub mod Calm
pub mod Begun
pub mod Patience
pub mod Places
pub mod Room
pub mod Exact
pub mod Never
pub mod Dropped
