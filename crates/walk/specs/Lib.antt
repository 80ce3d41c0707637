-- What the contracts of `walk` cite: Walk for one edge, Round for the edges of a polygon. Turns is for callers that take one edge at a time.
pub mod Walk
pub mod Round
pub mod Turns
