-- The walk round a node's polygon, an edge at a time.
pub mod Going
