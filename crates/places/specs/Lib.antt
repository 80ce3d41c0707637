-- Where things lie in the lent buffers.
pub mod Layout
